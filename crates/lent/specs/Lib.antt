pub mod Area
pub mod Ended
pub mod Tested
