pub mod Closings
pub mod Finals
