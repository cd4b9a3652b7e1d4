pub mod Events
pub mod Monitor
pub mod Laws
