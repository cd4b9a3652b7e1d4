pub mod Parents
pub mod OrderFacts
pub mod LawFacts
pub mod Selected
pub mod Decided
