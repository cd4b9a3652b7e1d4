pub mod Bodies
pub mod Once
pub mod Well
