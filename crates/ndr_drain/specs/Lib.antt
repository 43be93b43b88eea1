pub mod Drained
pub mod Turns
pub mod Faults
