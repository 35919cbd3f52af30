pub mod Index
pub mod Answers
