pub mod Chains
pub mod Currents
pub mod Pairs
pub mod Rules
pub mod Turns
