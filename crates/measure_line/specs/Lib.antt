pub mod Loops
pub mod Totals
pub mod Walks
pub mod Refusals
