pub mod Decodes
pub mod Encodes
pub mod Requests
mod Logs
