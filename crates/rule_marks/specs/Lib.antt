pub mod Joined
pub mod JoinedLaws
pub mod Making
pub mod Sharing
pub mod Split
pub mod SplitLaws
