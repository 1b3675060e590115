pub mod Saying
pub mod Answering
