pub mod Lines
pub mod Marked
pub mod Outcomes
pub mod Spelled
