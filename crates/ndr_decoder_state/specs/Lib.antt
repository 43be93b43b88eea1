pub mod Small
pub mod Seen
pub mod Notes
pub mod Parts
