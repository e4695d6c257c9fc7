pub mod GoodHistories
pub mod Packets
