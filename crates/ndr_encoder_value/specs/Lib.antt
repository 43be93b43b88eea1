pub mod Going
pub mod Elements
pub mod Turns
pub mod Maximum
pub mod Counted
