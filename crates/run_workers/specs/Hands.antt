pub mod Deltas
pub mod Drains
pub mod Pollers
pub mod KeptMaps
pub mod Servers
pub mod Laws
