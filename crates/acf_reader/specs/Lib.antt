pub mod Symbols
pub mod FromIdl
pub mod Grammar
pub mod Seen
pub mod Reading
pub mod Answers
pub mod Examples
pub mod Told
