pub mod Meanings
pub mod Replays
pub mod Reports
pub mod Headlines
pub mod Counts
pub mod Summaries
