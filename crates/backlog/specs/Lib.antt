pub mod Counted
pub mod Kept
pub mod Offered
pub mod Offers
pub mod Puts
pub mod Queues
pub mod Rising
pub mod Trails
