mod Bettering
mod Pushed
pub mod Growing
mod Giving
pub mod Working
mod Filing
mod Stored
pub mod Turns
mod Filed
