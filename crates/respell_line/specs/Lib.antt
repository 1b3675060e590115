pub mod Plain
pub mod Relabelled
