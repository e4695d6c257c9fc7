pub mod Crosses
pub mod FirstValues
pub mod ValueLemmas
pub mod WordNumbers
