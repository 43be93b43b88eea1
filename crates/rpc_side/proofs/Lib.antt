pub mod Bounds
pub mod Keeping
pub mod Stepping
pub mod Streaming
pub mod Within
