mod RoomLemmas
pub mod BoardOrderLemmas
mod HopLemmas
mod WordLemmas
mod FilterLemmas
mod WantLemmas
mod RunLemmas
