pub mod Examples
pub mod Homes
pub mod Chunks
pub mod Sides
