pub mod Chunks
pub mod Conforming
pub mod Elements
pub mod Heads
pub mod Spelt
pub mod Streams
