pub mod Rows
pub mod Gets
