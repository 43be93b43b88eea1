pub mod GraphEnds
pub mod Deferred
pub mod Opened
pub mod CellsKept
pub mod Begun
pub mod Counting
mod Twice
mod Alone
