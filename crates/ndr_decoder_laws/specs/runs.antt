pub mod Reaching
pub mod Rows
pub mod Records
pub mod Paid
pub mod Refusals
