pub mod Decls
pub mod Bodies
pub mod Members
pub mod Classes
pub mod Splits
