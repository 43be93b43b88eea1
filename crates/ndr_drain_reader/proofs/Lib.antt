mod Headers
mod Runs
mod Taken
mod Walked
mod Places
mod Handed
mod Chunked
pub mod AddedPipes
pub mod HeadCalls
pub mod HeadStands
pub mod SidePipes
