pub mod Passes
pub mod Sweeps
