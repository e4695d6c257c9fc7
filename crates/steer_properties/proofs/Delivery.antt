pub mod HopDelivery
pub mod EventLemmas
pub mod StepLemmas
pub mod HistoryLemmas
pub mod DeliveryLemmas
