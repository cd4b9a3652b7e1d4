pub mod Givens
pub mod Means
pub mod Sound
pub mod Writing
pub mod Complete
pub mod Stores
pub mod OneFact
