pub mod FlowLaw
pub mod PutPlaces
pub mod TurnReads
