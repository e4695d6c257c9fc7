pub mod Gates
pub mod Gated
pub mod Stages
pub mod Settings
pub mod Expiries
pub mod Attempts
pub mod Journals
pub mod Laws
