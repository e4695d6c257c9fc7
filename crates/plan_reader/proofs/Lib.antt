mod Sets
pub mod Placed
pub mod Loops
mod Views
mod BitsOfItems
mod Bytes
pub mod SeedLemmas
