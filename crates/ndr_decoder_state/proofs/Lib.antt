mod Values
mod Frames
pub mod Outside
