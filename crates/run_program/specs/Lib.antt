pub mod Words
pub mod Waits
