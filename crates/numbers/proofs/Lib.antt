pub mod Walks
pub mod Leads
pub mod Bounds
pub mod Points
pub mod Written
pub mod SpelledNumbers
