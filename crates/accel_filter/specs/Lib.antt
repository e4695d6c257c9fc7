pub mod Next
pub mod Marks
pub mod Table
pub mod Expiry
