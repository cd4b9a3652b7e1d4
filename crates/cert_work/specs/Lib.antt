pub mod Wants
pub mod Added
pub mod Rules
pub mod Roads
pub mod Held
pub mod Work
