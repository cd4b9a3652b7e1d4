pub mod Demands
pub mod Starts
pub mod Order
pub mod Graphs
pub mod Walks
pub mod Searches
pub mod Numbers
