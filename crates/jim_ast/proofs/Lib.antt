pub mod Filed
pub mod Texts
