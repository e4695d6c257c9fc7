pub mod PlaceLemmas
pub mod SumLemmas
