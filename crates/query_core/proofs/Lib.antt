pub mod NamedPlaces
pub mod Refused
pub mod Ordered
pub mod OneWay
pub mod Determined
mod Kept
pub mod Posed
pub mod Sound
