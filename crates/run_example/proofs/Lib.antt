pub mod ListLemmas
pub mod PlayLemmas
pub mod HintLemmas
pub mod FrameLemmas
pub mod MovingBoards
pub mod MovingTurns
pub mod MovingHints
pub mod MovingLemmas
