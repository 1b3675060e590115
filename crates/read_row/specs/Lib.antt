pub mod Columns
pub mod Readings
