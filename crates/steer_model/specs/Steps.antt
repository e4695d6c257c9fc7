pub mod Outcomes
pub mod Pollers
pub mod Applications
pub mod Commands
pub mod SingleSteps
pub mod CompoundSteps
