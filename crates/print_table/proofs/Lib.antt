pub mod Cursors
pub mod Steps
pub mod Parts
pub mod Sections
pub mod PrintedTable
pub mod Lengths
pub mod Short
pub mod One
