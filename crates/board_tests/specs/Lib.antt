pub mod Shares
pub mod Stands
