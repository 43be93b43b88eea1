pub mod PartReader
pub mod Outcomes
