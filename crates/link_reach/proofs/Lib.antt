pub mod Answering
pub mod Finding
pub mod FirstFaults
pub mod Ordering
pub mod Paths
pub mod Searching
