pub mod Differences
pub mod Trails
pub mod Lines
