pub mod Names
pub mod Systems
pub mod Parts
pub mod Tables
pub mod Triples
pub mod PartsOf
pub mod Making
