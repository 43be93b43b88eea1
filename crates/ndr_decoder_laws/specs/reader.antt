pub mod Halves
pub mod Around
pub mod Points
pub mod ChildNodes
