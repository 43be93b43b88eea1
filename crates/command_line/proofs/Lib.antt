pub mod Numerals
pub mod TakenWords
pub mod FewWords
