pub mod Heads
pub mod Writings
