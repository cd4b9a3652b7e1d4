pub mod Formals
pub mod Recalled
pub mod Sound
