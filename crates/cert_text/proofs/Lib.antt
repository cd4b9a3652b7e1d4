pub mod Marks
pub mod Numerals
pub mod NodeWords
pub mod LineWords
pub mod TextLines
pub mod ListWords
pub mod OneText
