pub mod VerdictLemmas
pub mod ReplayLemmas
pub mod JudgingLemmas
