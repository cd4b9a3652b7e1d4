pub mod Frames
pub mod Simulated
pub mod Agrees
pub mod Composed
pub mod Links
