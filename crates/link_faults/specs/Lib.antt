pub mod AtSite
pub mod Callees
pub mod Examined
pub mod Order
pub mod Parts
pub mod Progress
pub mod Sites
pub mod Traps
