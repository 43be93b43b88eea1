pub mod heads
pub mod joined
pub mod reader
pub mod parts
