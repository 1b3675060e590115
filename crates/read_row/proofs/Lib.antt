-- Laws of reading a row.
pub mod Cuts
pub mod Decimals
pub mod LinePlaces
pub mod Right
pub mod Steps
pub mod Moved
