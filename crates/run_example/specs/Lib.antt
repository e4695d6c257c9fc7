pub mod Plays
pub mod Moves
pub mod Plans
pub mod MovingRun
