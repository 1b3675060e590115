pub mod Leading
pub mod Names
