pub mod SameKey
pub mod Celled
pub mod Numbering
pub mod Scanning
pub mod Resting
pub mod Opening
pub mod Composing
pub mod Whole
pub mod Still
pub mod Ending
pub mod Posting
pub mod Noting
pub mod Looking
pub mod Turns
pub mod Arriving
mod Holding
