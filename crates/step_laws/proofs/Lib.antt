pub mod HandLemmas
pub mod IdleLemmas
pub mod LiftLemmas
pub mod ReasonLemmas
pub mod StageLemmas
pub mod Origins
