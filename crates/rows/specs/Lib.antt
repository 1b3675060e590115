pub mod Walks
pub mod Relabels
