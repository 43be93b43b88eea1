pub mod Searched
pub mod HomeList
pub mod Pointers
pub mod Disagreeing
pub mod Numbers
pub mod Simple
