pub mod Classes
pub mod Elements
pub mod Methods
pub mod Numbers
pub mod Parts
pub mod Places
