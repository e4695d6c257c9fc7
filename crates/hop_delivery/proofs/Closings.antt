pub mod FlowLemmas
pub mod PutPlaceLemmas
pub mod RuleLemmas
pub mod TurnReadLemmas
