pub mod Compare
pub mod Inserted
pub mod Carried
pub mod Feeds
pub mod AllInserted
pub mod Kept
pub mod Arranged
pub mod One
