pub mod RangeLemmas
pub mod StepLemmas
