pub mod ToLineFeed
pub mod Moves
pub mod One
