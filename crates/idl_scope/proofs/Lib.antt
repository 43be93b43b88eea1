pub mod Bits
pub mod Ranges
pub mod Tables
pub mod Lists
pub mod Small
pub mod Uses
