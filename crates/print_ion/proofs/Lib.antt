pub mod TextParts
pub mod PrintedIon
