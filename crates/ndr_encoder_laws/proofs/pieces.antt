pub mod Showing
pub mod Heads
