pub mod Stored
pub mod Letters
pub mod Cuts
pub mod Kinds
pub mod Ions
