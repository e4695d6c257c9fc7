pub mod ExtendLemmas
pub mod HopGrowthLemmas
pub mod LastingLemmas
pub mod StepKindLemmas
pub mod PutKindLemmas
pub mod MomentLemmas
pub mod HistoryInvariant
pub mod AtRestLemmas
