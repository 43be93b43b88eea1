mod Words
pub mod Values
