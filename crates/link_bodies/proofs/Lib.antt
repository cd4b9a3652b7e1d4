pub mod Again
pub mod Sorted
