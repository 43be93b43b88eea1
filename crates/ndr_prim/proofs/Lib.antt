pub mod Octets
pub mod Values
pub mod Contexts
