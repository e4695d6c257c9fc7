pub mod Names
pub mod TurnListLemmas
pub mod OwnTableLemmas
pub mod RuleLemmas
pub mod QueueCouplingLemmas
pub mod NoteLemmas
pub mod ApplicationCouplingLemmas
pub mod StoreCouplingLemmas
pub mod ArrivalCouplingLemmas
pub mod WireTurnLemmas
pub mod ChoiceFunctions
pub mod ExecutionLemmas
mod QueueTurnLemmas
mod QueueLemmas
mod ReplyTurnLemmas
mod ReplyLemmas
mod DrainLemmas
mod AcceptedLemmas
mod ArrivalLemmas
mod CountLemmas
mod DealtSumLemmas
mod FinishedLemmas
mod StoreLemmas
mod RunLemmas
mod RoundLemmas
mod QuietLemmas
mod WithinLemmas
mod FrontLemmas
