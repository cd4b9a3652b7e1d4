pub mod Firsts
pub mod Graph
pub mod Reaches
pub mod Search
