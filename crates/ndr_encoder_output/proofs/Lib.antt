pub mod Rows
pub mod Filled
pub mod Counted
pub mod Following
