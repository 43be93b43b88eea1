pub mod Pieces
pub mod Literals
pub mod Verdict
