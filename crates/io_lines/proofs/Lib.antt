pub mod Unfed
pub mod Looks
pub mod Fills
pub mod Rooms
pub mod Parts
pub mod Searches
pub mod Lines
