pub mod Forms
pub mod Trailing
pub mod Leading
pub mod Ordered
pub mod Walked
pub mod Operated
pub mod Paths
