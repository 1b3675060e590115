pub mod Heads
pub mod Enclosed
