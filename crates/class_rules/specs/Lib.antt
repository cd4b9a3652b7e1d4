pub mod Bodies
pub mod Lookups
pub mod Orders
pub mod Paths
pub mod Rows
pub mod Laws
