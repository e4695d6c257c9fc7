pub mod Carried
pub mod Ethernet
pub mod Ports
pub mod Ipv4
pub mod Ipv6
pub mod Frame
pub mod Places
