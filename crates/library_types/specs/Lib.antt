pub mod Low
pub mod Finding
pub mod Described
pub mod Parts
pub mod Rooted
