pub mod Lookups
pub mod ReadTypes
