pub mod Systems
pub mod Making
pub mod Begun
pub mod ByNode
pub mod Returns
pub mod Noted
pub mod Held
