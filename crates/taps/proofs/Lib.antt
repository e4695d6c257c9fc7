pub mod CountsLemmas
pub mod CpusLemmas
pub mod FlowsLemmas
pub mod ShownLemmas
