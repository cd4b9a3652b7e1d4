pub mod Spread
pub mod SameKeys
pub mod Noted
