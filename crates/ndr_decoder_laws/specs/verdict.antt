pub mod CellsSeen
pub mod InOrder
