pub mod Bare
pub mod Verdict
pub mod Agreement
pub mod Pairs
pub mod Whole
