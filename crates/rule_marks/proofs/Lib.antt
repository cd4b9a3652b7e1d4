pub mod Gathering
pub mod Joining
pub mod Placing
pub mod Products
pub mod Splitting
pub mod Writing
