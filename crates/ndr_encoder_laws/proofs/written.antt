pub mod Steps
pub mod Rows
pub mod Runs
pub mod Pipes
