pub mod Chip
pub mod Play
pub mod Lent
