pub mod Marks
pub mod Refusals
