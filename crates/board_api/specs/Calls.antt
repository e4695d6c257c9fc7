pub mod HeldLanes
pub mod Rights
pub mod Results
