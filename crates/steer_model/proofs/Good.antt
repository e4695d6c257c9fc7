pub mod NoCommand
