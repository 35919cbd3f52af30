pub mod Started
pub mod Least
pub mod Replay
