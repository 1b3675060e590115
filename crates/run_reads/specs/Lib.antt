pub mod Reads
pub mod Answered
