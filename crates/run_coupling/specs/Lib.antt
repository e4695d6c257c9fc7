pub mod Coupling
pub mod Laws
