pub mod Begun
mod Drains
mod ElementTypes
mod Giving
mod Pipes
mod Rest
mod Steps
mod UnderWay
mod Whole
