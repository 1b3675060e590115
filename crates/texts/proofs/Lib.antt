pub mod Classes
pub mod LeadingLoop
pub mod NameLoop
pub mod LeadingBytes
pub mod NameEnds
