-- Laws of answers that are packed.
pub mod Packs
pub mod One
