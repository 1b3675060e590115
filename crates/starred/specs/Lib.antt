pub mod Becomes
pub mod Tables
pub mod Rows
