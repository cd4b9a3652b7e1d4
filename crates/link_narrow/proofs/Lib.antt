pub mod Filled
pub mod Grown
pub mod Reached
pub mod Stays
pub mod Whole
