pub mod Lists
pub mod HintViews
pub mod Values
pub mod Numbers
pub mod First
pub mod Codes
