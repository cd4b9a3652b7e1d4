pub mod Strings
pub mod Laws
pub mod Found
pub mod Starts
