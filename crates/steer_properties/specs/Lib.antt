pub mod CompoundSteps
pub mod Sweep
pub mod Delivery
pub mod Histories
pub mod Choices
pub mod Commands
