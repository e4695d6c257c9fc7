pub mod CandidatesLemmas
mod InverseLemmas
mod MapsLemmas
mod ServingLemmas
