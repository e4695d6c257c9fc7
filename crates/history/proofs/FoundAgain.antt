-- A regular history is found again in its lines, sums, writes and commands.
pub mod Arrivals
pub mod Histories
mod Looks
pub mod SameArrivals
pub mod SamePuts
pub mod Traces
