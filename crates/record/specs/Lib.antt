pub mod Record
pub mod Kinds
pub mod Marks
