pub mod Laying
pub mod KindTests
pub mod Fields
pub mod Trip
pub mod Reading
pub mod Copy
pub mod Operations
