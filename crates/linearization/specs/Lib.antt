pub mod Closings
pub mod Views
pub mod Prefixes
pub mod Orders
pub mod Rules
pub mod Seats
