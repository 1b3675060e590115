-- Laws of the calls from C.
pub mod Preparing
pub mod Fitting
pub mod FittingRows
pub mod Lent
pub mod One
