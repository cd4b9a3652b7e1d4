pub mod Places
pub mod Answers
pub mod Errors
pub mod Sought
pub mod Solvers
