mod Packed
mod Slots
mod SlotTicks
mod PieceNodes
pub mod ElementsTaken
mod FirstZeros
pub mod Going
pub mod OneStep
mod TextSteps
pub mod StringSteps
mod StructSteps
mod StructReading
pub mod Owing
