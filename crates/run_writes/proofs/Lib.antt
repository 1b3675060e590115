pub mod Cut
pub mod Fits
pub mod Answering
pub mod One
