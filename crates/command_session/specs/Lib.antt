pub mod Session
pub mod Rows
