pub mod Below
pub mod Choosing
pub mod Marked
pub mod Pairs
pub mod RowSets
pub mod Selecting
