pub mod Stores
pub mod Readings
pub mod Same
pub mod Back
