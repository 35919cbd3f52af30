pub mod After
pub mod Walks
pub mod Chips
pub mod Given
