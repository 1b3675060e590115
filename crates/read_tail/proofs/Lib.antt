pub mod Measures
pub mod Devs
pub mod SpelledTail
pub mod Within
