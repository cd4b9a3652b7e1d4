pub mod Groups
pub mod Spans
pub mod Tables
