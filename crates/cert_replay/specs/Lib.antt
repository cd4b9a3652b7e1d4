pub mod Cited
pub mod Joins
pub mod Views
pub mod Found
pub mod Replays
pub mod Spread
