pub mod Orders
pub mod Closings
