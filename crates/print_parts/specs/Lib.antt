pub mod Numbers
pub mod Changes
pub mod Isotopes
pub mod Tails
