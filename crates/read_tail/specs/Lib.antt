pub mod Kinds
pub mod Charges
pub mod Decimals
