pub mod Allowed
pub mod Ending
pub mod Naming
pub mod Offered
pub mod OneRun
pub mod Sited
pub mod Tellable
pub mod Telling
