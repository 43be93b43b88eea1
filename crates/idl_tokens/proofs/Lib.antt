pub mod Basics
pub mod Lists
pub mod Tables
mod Taken
pub mod Signs
pub mod Unfolds
