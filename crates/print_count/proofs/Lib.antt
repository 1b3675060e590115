pub mod Steps
pub mod SpelledCount
pub mod One
