pub mod Waiting
pub mod One
