pub mod Setup
pub mod Settings
pub mod Ranges
pub mod Notes
pub mod Machine
pub mod Start
