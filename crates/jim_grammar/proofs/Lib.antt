pub mod Theory
pub mod Steps
pub mod Runs
pub mod Ends
pub mod Kept
pub mod Classes
pub mod Places
