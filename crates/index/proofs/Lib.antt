pub mod Search
pub mod Rows
pub mod Values
pub mod Shift
