pub mod Value
pub mod Checked
pub mod Steps
pub mod Known
pub mod Kept
pub mod Small
pub mod SeenFiles
pub mod Seen
