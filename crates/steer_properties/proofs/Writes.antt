pub mod OriginLemmas
pub mod PlaceLemmas
pub mod SeenLemmas
pub mod WriteLemmas
