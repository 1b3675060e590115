pub mod Plain
pub mod SpellsLine
pub mod Spelling
pub mod Relabelled
pub mod Preferred
