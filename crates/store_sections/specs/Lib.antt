pub mod Pages
pub mod Headers
pub mod Fills
