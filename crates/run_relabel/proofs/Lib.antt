pub mod Rooms
pub mod Spelling
pub mod Short
pub mod Answering
pub mod One
pub mod Put
