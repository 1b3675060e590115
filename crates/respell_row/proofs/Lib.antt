-- Laws of a row in preferred spelling.
pub mod Steps
