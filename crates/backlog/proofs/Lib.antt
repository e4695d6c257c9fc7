pub mod Crosses
pub mod ExplainedLemmas
pub mod OffersLemmas
pub mod WindowLemmas
pub mod RisingLemmas
