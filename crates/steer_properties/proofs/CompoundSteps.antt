pub mod LaneLemmas
pub mod TurnLemmas
pub mod RunLemmas
