pub mod Re
pub mod Parts
pub mod Scan
pub mod Order
pub mod Mark
pub mod Digits
pub mod Walk
