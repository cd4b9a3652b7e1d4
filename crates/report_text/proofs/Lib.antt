pub mod Aliased
pub mod Growing
pub mod Made
pub mod Pathed
pub mod Standing
