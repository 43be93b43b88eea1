pub mod Naming
pub mod Order
pub mod Canonical
pub mod Alike
