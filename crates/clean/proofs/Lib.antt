pub mod Runs
pub mod Judge
pub mod Unlisted
pub mod Carries
pub mod Turns
