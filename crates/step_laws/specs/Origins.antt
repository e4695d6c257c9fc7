pub mod SettingWrites
pub mod FilterOrigins
pub mod SocketOrigins
pub mod TableWrites
