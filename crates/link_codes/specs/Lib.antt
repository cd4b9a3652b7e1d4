pub mod Contexts
pub mod Constants
pub mod Elements
pub mod Fields
pub mod Made
pub mod Methods
pub mod Needs
