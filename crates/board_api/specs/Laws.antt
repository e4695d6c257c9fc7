pub mod Heads
pub mod Lanes
pub mod OwnSteps
pub mod Puts
