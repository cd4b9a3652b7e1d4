pub mod Drops
pub mod Commas
pub mod Repeats
pub mod Choices
pub mod Sizes
pub mod ExprChoices
pub mod StmtChoices
