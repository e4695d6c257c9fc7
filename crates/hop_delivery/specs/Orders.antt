pub mod Commands
pub mod DeliveryLaw
pub mod Premises
pub mod ReceiveSettings
pub mod Runs
pub mod TransmitSettings
pub mod Turns
