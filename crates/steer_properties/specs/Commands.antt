pub mod Answered
pub mod GivenOnce
