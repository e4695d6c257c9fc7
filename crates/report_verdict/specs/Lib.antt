pub mod Verdicts
pub mod VerdictText
pub mod Laws
pub mod Replays
