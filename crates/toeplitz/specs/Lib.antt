pub mod Toeplitz
pub mod Flows
pub mod Tables
