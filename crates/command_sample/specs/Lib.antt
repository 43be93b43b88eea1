pub mod Steps
pub mod Nodes
pub mod Interface
pub mod Values
