pub mod Aliases
pub mod Answers
pub mod Lines
pub mod Paths
pub mod Texts
