pub mod Answers
pub mod Rounds
pub mod Keeping
pub mod Selecting
