pub mod Given
pub mod Certified
pub mod Spelled
pub mod Lengths
pub mod Told
