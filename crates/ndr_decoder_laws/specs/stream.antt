pub mod Added
pub mod Between
pub mod Tests
pub mod Report
pub mod Parameters
pub mod Calls
