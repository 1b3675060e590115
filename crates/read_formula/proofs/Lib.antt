pub mod Measures
pub mod UnitLoop
pub mod Rows
pub mod Spelled
pub mod Limits
pub mod Ends
pub mod Formulas
