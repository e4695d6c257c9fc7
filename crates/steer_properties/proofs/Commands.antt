pub mod GivingLemmas
pub mod AnswerLemmas
pub mod StepLemmas
pub mod WordLemmas
pub mod GivenOnceLemmas
