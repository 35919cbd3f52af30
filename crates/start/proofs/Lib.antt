pub mod Cursor
pub mod Bridge
pub mod Starts
