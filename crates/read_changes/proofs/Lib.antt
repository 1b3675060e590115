pub mod Walks
pub mod Measures
pub mod ChangeLoop
pub mod Spelled
pub mod Begins
pub mod OneChange
pub mod Sums
pub mod SpelledChanges
