-- Laws of sequences as they are read.
pub mod Walks
