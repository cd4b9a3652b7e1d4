pub mod Laws
pub mod Numberings
pub mod Refused
pub mod Spellings
