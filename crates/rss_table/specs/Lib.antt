pub mod Redirection
