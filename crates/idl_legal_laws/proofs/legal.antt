pub mod Known
pub mod Values
pub mod Places
pub mod Alone
pub mod Counts
pub mod All
pub mod Meanings
