pub mod Added
pub mod Codes
pub mod Into
pub mod Backs
pub mod Starts
pub mod Stored
pub mod Positions
