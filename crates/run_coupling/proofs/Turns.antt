pub mod TableEntryLemmas
pub mod TableLemmas
