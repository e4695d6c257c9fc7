pub mod RowLemmas
pub mod ArrivalLemmas
pub mod CommandLemmas
pub mod StepLemmas
