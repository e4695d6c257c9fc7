pub mod Capture
pub mod Steps
pub mod Good
