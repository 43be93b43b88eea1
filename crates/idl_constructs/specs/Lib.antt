pub mod SeenNodes
pub mod Spelled
pub mod ListBreaches
pub mod Growing
