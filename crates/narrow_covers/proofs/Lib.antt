pub mod Alike
pub mod Entering
pub mod Rows
pub mod Inner
pub mod Staying
pub mod Whole
