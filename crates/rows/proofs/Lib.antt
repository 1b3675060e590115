-- Laws of rows and peak lists.
pub mod OneRow
pub mod RowBack
pub mod ConvertRowBack
pub mod Lists
pub mod Replaced
pub mod StrayRow
pub mod Worked
pub mod RelabelRow
pub mod RelabelBack
pub mod One
