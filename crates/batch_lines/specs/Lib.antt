pub mod Cuts
pub mod Queries
