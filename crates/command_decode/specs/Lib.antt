pub mod Decoded
pub mod Taken
pub mod Fronts
