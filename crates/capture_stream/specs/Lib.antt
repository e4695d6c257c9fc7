pub mod Captures
pub mod Windows
pub mod Walks
pub mod Streams
pub mod Pcapng
pub mod Classic
