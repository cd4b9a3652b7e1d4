pub mod States
pub mod Slots
pub mod Effects
pub mod Offers
pub mod Steps
pub mod Runs
pub mod Shapes
pub mod Laws
