pub mod Forms
pub mod Homes
