pub mod Generations
pub mod Sockets
