pub mod Walk
pub mod Seen
pub mod Causes
pub mod Loads
pub mod Decided
pub mod Going
