pub mod Lexemes
pub mod Found
pub mod Refused
pub mod Views
