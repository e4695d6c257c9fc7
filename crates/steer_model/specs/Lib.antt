pub mod State
pub mod Steps
pub mod Good
pub mod Laws
pub mod Capture
