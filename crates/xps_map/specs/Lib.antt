pub mod Inverses
pub mod Maps
