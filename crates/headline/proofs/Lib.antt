pub mod Places
pub mod Rules
pub mod Rights
pub mod Reports
pub mod GoodLemmas
mod WholeLemmas
pub mod LiveReports
pub mod EventLemmas
pub mod RunLemmas
pub mod MomentLemmas
pub mod PutMomentLemmas
pub mod ReplayMomentLemmas
mod ExampleLemmas
mod ForgedLemmas
pub mod ListOrderLemmas
mod ForgedRunLemmas
