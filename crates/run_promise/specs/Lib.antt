pub mod BoardOrders
pub mod Laws
