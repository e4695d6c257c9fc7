pub mod Places
pub mod Deepest
pub mod Tunnels
