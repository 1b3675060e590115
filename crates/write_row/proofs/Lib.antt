-- Laws of writing a row.
pub mod Heads
pub mod Held
pub mod Right
pub mod Over
pub mod Steps
pub mod Wrote
