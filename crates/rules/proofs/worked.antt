-- The worked lines with their tables, and computed cases of classes, order and bounds: the list of these files. Assumes nothing.
pub mod Spell
pub mod Row
pub mod Ions
pub mod Losses
pub mod Others
pub mod Several
pub mod Symbols
pub mod Classes
pub mod Bounds
pub mod Points
pub mod Nested
pub mod Sequences
pub mod Sequenced
pub mod Letters
