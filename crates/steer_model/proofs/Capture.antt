pub mod HashLemmas
pub mod ShortNumberLemmas
pub mod FlowNumberLemmas
pub mod WaitingLemmas
pub mod PacketLemmas
pub mod RecordLemmas
pub mod PlanLemmas
pub mod FlowLemmas
