pub mod ByTheRule
pub mod Moves
pub mod Clear
