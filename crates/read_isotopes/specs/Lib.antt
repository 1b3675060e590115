pub mod Kinds
pub mod Isotopes
pub mod Rows
pub mod Records
pub mod Spelled
