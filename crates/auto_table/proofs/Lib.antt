pub mod Filed
pub mod Found
pub mod Raises
pub mod RowReads
pub mod Same
pub mod Tables
pub mod Weighed
pub mod Whole
