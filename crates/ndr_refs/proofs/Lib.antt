pub mod Turns
pub mod Naming
