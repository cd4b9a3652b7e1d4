pub mod Filed
pub mod Grown
pub mod Listed
pub mod Lasts
