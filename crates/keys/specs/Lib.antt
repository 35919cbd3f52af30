pub mod Next
pub mod Walk
