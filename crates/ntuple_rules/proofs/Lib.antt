pub mod Matched
pub mod Found
pub mod Ordered
pub mod Sieved
pub mod Allowed
pub mod Searched
