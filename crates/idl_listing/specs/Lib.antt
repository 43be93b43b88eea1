pub mod Listing
pub mod Worded
