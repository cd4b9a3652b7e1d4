pub mod Order
pub mod Runs
pub mod OneWorld
pub mod Dimensions
