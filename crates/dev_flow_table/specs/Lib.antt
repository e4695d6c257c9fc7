pub mod Folds
pub mod Moves
pub mod Tables
pub mod Walks
pub mod Written
