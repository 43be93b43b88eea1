pub mod Written
pub mod Paths
pub mod Beside
pub mod Fitted
pub mod OneText
pub mod Requests
