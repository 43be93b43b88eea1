pub mod Decoding
pub mod Streaming
pub mod Tried
pub mod Piping
pub mod Trials
