pub mod Well
pub mod One
