pub mod Words
pub mod Table
pub mod SymbolsAgree
pub mod Begins
pub mod Codes
pub mod Cases
