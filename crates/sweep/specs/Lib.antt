pub mod Ends
pub mod Steps
