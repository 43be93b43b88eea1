pub mod Outputs
pub mod Filling
pub mod Counting
pub mod Structs
