pub mod Showing
pub mod One
