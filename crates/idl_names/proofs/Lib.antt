pub mod Walked
pub mod Rests
pub mod Going
pub mod Spelled
pub mod Loads
pub mod Once
