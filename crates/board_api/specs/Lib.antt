pub mod Closings
pub mod Laws
pub mod Calls
pub mod Lists
pub mod OwnSteps
pub mod Seats
pub mod StepWords
pub mod Views
