pub mod Dispatched
pub mod Once
pub mod Whole
