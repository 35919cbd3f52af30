pub mod Runs
pub mod Appends
