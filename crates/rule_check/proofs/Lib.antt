pub mod ChainsLemmas
pub mod EntriesLemmas
mod CurrentsLemmas
mod RulesLemmas
mod TurnsLemmas
