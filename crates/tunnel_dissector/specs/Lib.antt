pub mod Gre
pub mod Vxlan
pub mod Levels
pub mod Inner
pub mod Writing
pub mod Laws
