pub mod Spots
pub mod Steps
pub mod Good
pub mod StepItems
pub mod Chunks
