pub mod Tags
pub mod Extensions
pub mod Found
pub mod Longer
