pub mod Packets
pub mod Captures
pub mod Flows
pub mod PlanValues
pub mod Plans
