pub mod PlaceLemmas
pub mod ProgramLemmas
