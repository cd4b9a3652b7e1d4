pub mod Findings
pub mod Growing
pub mod Receivers
pub mod Searches
