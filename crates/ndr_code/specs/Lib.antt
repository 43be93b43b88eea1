pub mod Code
pub mod Fields
pub mod Lengths
pub mod Plan
pub mod Runs
pub mod Tried
