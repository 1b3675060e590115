pub mod Sums
pub mod Annotations
