pub mod ApplicationLemmas
pub mod CodeLemmas
pub mod FactLemmas
pub mod PutTurnLemmas
pub mod QueueLemmas
pub mod StandLemmas
pub mod TurnListLemmas
