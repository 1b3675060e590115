-- Laws of converting a row.
pub mod Right
pub mod Steps
