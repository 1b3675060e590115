pub mod Steps
pub mod Kept
pub mod Ions
pub mod Adducts
pub mod Rests
pub mod RespelledAnnotation
pub mod One
