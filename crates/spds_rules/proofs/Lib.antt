pub mod Formals
pub mod Keys
pub mod Passing
