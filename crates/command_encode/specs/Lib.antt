pub mod Encoded
pub mod Prepared
