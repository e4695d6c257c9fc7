pub mod Benches
pub mod Offices
