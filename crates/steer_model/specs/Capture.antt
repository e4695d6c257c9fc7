pub mod FlowKeys
pub mod NumberMaps
pub mod Guesses
pub mod ShortNumbers
pub mod FlowNumbers
pub mod Packets
pub mod PacketLists
pub mod FlowCounts
