pub mod Texts
pub mod Ions
pub mod Fronts
