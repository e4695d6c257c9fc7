pub mod IdleTurnLemmas
pub mod RestLemmas
pub mod StillTurnLemmas
pub mod RoundLemmas
pub mod WeightLemmas
pub mod SweepLemmas
pub mod ThroughLemmas
pub mod SweptHistoryLemmas
