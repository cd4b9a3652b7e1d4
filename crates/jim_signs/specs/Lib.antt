pub mod Leads
pub mod Names
pub mod Signs
pub mod Pieces
