pub mod Rejections
pub mod Outcomes
