pub mod Units
pub mod Formulas
