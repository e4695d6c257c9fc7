pub mod Words
pub mod Growth
pub mod Polling
pub mod Replying
pub mod Storing
pub mod PollingLaws
pub mod ReplyingLaws
