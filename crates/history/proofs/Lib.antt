pub mod BoundLemmas
mod CountLemmas
pub mod ExampleLemmas
pub mod Examples
pub mod FindingLemmas
pub mod FoundAgain
mod InOrderLemmas
mod IndexLemmas
mod LinesFit
mod LinesLemmas
mod NoDropLemmas
pub mod OwnLemmas
pub mod PlaceLemmas
mod PositionLemmas
pub mod RegularLemmas
mod ReplyLemmas
pub mod SamePlaces
mod SlotLemmas
mod WordLemmas
