pub mod Cells
pub mod Letters
pub mod Editions
pub mod Walks
pub mod Moves
pub mod Scans
pub mod Parts
pub mod One
