pub mod Lines
pub mod Behind
pub mod One
