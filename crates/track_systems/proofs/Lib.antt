pub mod Weighing
pub mod Few
pub mod Leading
