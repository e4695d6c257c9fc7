pub mod Names
pub mod GateLemmas
pub mod GatedLaws
mod ListLemmas
mod HintLemmas
mod LoopLemmas
mod SeatLemmas
mod KnownLemmas
mod TryLemmas
mod GivingLemmas
mod WaitLemmas
mod RoomLemmas
mod AgreeLemmas
mod OneTryLemmas
mod ControllerLaws
