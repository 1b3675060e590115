pub mod Parts
pub mod Sequences
pub mod Groups
pub mod House
pub mod Measured
