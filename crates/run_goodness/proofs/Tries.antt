pub mod AnswerLemmas
pub mod SizeLemmas
