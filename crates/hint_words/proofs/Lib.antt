pub mod Changes
pub mod Keeps
pub mod LastWrites
pub mod Moments
pub mod Sources
pub mod Writing
