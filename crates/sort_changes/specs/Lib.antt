pub mod Keys
pub mod Gathered
pub mod Events
pub mod Spelled
pub mod Ways
