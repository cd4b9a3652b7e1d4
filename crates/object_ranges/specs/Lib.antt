pub mod Marks
pub mod Minima
pub mod Selections
pub mod Parts
pub mod Chosen
