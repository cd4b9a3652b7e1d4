pub mod Laws
pub mod Refined
