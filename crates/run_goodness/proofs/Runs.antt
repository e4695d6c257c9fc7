pub mod GoodLemmas
pub mod HintLemmas
pub mod ReceiveLemmas
pub mod RunLemmas
pub mod TransmitLemmas
