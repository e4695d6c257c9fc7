pub mod CountersLemmas
pub mod EntriesLemmas
pub mod FirstLemmas
pub mod ListLemmas
pub mod MasksLemmas
pub mod PowerLemmas
pub mod RuleLemmas
pub mod SetsLemmas
