pub mod Rest
pub mod SweepLaws
