pub mod ChoiceCountLemmas
pub mod EndLemmas
pub mod HandLemmas
pub mod PutCountLemmas
pub mod TotalLemmas
