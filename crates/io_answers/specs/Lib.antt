pub mod Tells
pub mod Asked
