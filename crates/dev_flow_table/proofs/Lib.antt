pub mod FoldsLemmas
pub mod MovesLemmas
pub mod WalkExample
pub mod WalksLemmas
mod WrittenLemmas
