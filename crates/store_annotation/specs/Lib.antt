pub mod Records
pub mod Events
