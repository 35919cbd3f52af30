pub mod Area
pub mod Numbers
pub mod Held
