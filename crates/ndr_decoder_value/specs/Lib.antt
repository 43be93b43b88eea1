pub mod Parts
pub mod Wanting
pub mod Notes
pub mod Reaching
