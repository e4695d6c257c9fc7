pub mod Always
pub mod Sizes
pub mod GoodSoFar
pub mod GoodAtRest
