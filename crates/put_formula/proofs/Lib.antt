pub mod UnitLoop
pub mod TextParts
pub mod Chains
pub mod PutUnits
