pub mod Cells
pub mod Grids
pub mod Inside
pub mod Naming
pub mod Spreads
