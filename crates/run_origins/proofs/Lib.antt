pub mod Objects
pub mod Machine
