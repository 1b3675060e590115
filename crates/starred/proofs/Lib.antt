-- The starred lines.
pub mod Judge
pub mod Only
pub mod Refused
pub mod Worked
pub mod Starred
