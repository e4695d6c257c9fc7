mod StepsLemmas
mod CountsLemmas
mod TextsLemmas
mod WrittenLemmas
mod SummariesLemmas
pub mod HeadlineLemmas
