pub mod Leading
pub mod Making
pub mod Points
pub mod Shares
