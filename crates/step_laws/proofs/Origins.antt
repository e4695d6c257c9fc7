pub mod SettingWriteLemmas
pub mod SettingLemmas
pub mod FilterOriginLemmas
pub mod SocketOriginLemmas
pub mod TableWriteLemmas
