pub mod Positions
pub mod Listed
pub mod Searches
pub mod Placed
pub mod Spanned
pub mod Reached
pub mod Visited
pub mod LookedAt
