pub mod LowSigns
pub mod LowTrees
pub mod LowOperands
pub mod LowStatements
pub mod LowBodies
pub mod LowClasses
pub mod ReadBodies
pub mod Programs
