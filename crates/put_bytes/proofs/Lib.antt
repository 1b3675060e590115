pub mod Putting
pub mod PutLoop
pub mod One
pub mod Clearing
