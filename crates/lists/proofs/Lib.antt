mod Filed
mod Grouped
mod Laid
pub mod Places
mod Roomy
pub mod Tallied
pub mod SideBySide
pub mod Keys
pub mod Cutting
pub mod Exactly
pub mod Joined
pub mod OneKey
pub mod Found
pub mod Grown
pub mod Elements
