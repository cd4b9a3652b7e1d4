pub mod Arrays
pub mod Coded
pub mod Found
pub mod Increasing
pub mod Joined
mod Naming
pub mod Placing
pub mod Pushed
pub mod Searched
pub mod Declared
