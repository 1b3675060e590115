pub mod Kept
pub mod Annotations
