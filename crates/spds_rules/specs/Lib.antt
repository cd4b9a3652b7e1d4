pub mod Nodes
pub mod Formals
pub mod Edges
pub mod Stores
pub mod Demand
pub mod Systems
pub mod Answers
pub mod Spread
