pub mod Cells
pub mod Entries
pub mod Seen
pub mod Ends
pub mod Fetched
pub mod Chunks
pub mod Opening
pub mod Counted
