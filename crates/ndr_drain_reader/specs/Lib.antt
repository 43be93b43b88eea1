pub mod Seen
pub mod Calls
pub mod Ready
pub mod Pipes
pub mod Chunks
pub mod Handing
pub mod Heads
