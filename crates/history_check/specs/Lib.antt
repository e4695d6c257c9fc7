pub mod Meeting
pub mod Tests
