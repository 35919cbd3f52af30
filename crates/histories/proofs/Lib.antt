pub mod Histories
pub mod Walks
pub mod Printed
pub mod Short
pub mod Answered
pub mod Formatted
pub mod Old
pub mod Theorems
