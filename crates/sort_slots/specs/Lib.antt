pub mod Slots
pub mod Blanks
pub mod Steps
pub mod Stands
