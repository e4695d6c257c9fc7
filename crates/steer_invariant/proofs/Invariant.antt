pub mod HistoryLemmas
pub mod EventPremiseLemmas
pub mod StartLemmas
pub mod RowLemmas
pub mod CommandLemmas
pub mod StepLemmas
