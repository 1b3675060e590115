pub mod Measures
pub mod SpelledOpenings
