pub mod Chars
pub mod Words
pub mod Spelling
pub mod Contents
pub mod Ends
pub mod Lexes
pub mod Laws
