pub mod Firsts
pub mod TypeReading
mod Bodies
mod Answered
