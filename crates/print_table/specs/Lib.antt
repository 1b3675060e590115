pub mod Parts
pub mod Annotations
pub mod Tables
