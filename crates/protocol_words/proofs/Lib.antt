pub mod Counting
pub mod Deciding
pub mod Names
pub mod Outcomes
pub mod Parts
pub mod Rows
pub mod Seen
pub mod Spelled
