pub mod EndingLemmas
pub mod RuleLemmas
pub mod ListLemmas
pub mod PigeonholeLemmas
pub mod PlaceLemmas
pub mod SeatListLemmas
pub mod ViewLemmas
