pub mod Numbers
pub mod Captures
pub mod Faults
pub mod Fronts
pub mod FrameSinks
pub mod Writing
pub mod Laws
