pub mod Indexes
pub mod Heaps
