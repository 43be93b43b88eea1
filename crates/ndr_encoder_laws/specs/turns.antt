pub mod Turned
pub mod Roots
