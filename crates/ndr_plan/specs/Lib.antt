pub mod Addresses
pub mod Checks
pub mod Listing
pub mod Numbers
pub mod Parts
