pub mod Words
pub mod Captures
pub mod Flows
pub mod Plans
