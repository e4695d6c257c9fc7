pub mod PieceLemmas
pub mod PcapngLemmas
pub mod ClassicLemmas
pub mod BeginLemmas
