pub mod Closing
pub mod Resting
