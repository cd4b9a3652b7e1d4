pub mod Offered
pub mod Rows
pub mod Heap
pub mod Whole
