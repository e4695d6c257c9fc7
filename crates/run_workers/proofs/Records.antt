pub mod AddedLemmas
pub mod HeldLemmas
pub mod HintLemmas
pub mod ListLemmas
pub mod PollingLemmas
pub mod ReplyingLemmas
pub mod StoringLemmas
pub mod WordLemmas
