pub mod Needed
pub mod Verdict
