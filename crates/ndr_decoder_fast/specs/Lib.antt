pub mod Faults
pub mod Leaps
pub mod Elements
pub mod Strings
pub mod Structs
