pub mod Explained
pub mod Cursors
