pub mod Delivered
pub mod Behind
