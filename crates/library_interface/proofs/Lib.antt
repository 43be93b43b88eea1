pub mod Results
pub mod Loaded
pub mod Sure
