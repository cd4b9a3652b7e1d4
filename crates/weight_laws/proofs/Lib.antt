pub mod Orders
pub mod Unions
pub mod Meaning
