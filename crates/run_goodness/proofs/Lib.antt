pub mod Names
pub mod Tries
pub mod Turns
pub mod Ends
pub mod Runs
