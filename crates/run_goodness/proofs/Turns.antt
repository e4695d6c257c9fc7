pub mod ChoiceLemmas
pub mod HeadLemmas
pub mod NumberLemmas
pub mod ReplyLemmas
