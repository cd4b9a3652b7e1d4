pub mod Known
pub mod Seen
pub mod Selected
pub mod Receivers
