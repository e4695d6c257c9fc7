pub mod Ahead
pub mod Lists
pub mod Printed
pub mod Shown
