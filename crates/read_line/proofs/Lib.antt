pub mod Storing
pub mod Answered
pub mod Same
pub mod Back
pub mod Filled
pub mod Counted
pub mod Right
pub mod One
