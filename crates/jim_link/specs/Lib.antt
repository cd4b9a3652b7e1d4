pub mod Heads
pub mod Made
pub mod Members
pub mod Rows
pub mod Texts
pub mod Told
