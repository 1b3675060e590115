-- What first-edition reading answers to a line of the second edition.
pub mod Alike
pub mod Bytes
pub mod Walk
pub mod Cells
pub mod Split
pub mod Refused
