pub mod Closings
pub mod Loads
pub mod Steps
pub mod Tables
pub mod Views
