pub mod Fragments
pub mod Labels
pub mod Versions
pub mod Reasons
pub mod Causes
pub mod Names
pub mod Words
pub mod Halves
