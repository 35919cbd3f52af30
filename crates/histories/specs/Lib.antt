pub mod History
pub mod Walks
pub mod Old
pub mod Theorems
