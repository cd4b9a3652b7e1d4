mod Ascending
mod Found
mod Taken
mod Marks
mod Selecting
mod Marking
pub mod Anew
mod Written
pub mod Sums
