pub mod Reading
pub mod Pipes
