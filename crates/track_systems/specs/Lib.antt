pub mod Events
pub mod Settled
pub mod Weights
pub mod Track
pub mod Findings
pub mod Values
pub mod Laws
