pub mod Loops
pub mod Begins
pub mod Parts
pub mod LineLoop
pub mod ModifierLoop
pub mod Apart
pub mod ApartCode
pub mod ApartProgram
