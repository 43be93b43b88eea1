pub mod FilledGaps
pub mod HomeNodes
pub mod LevelPaths
pub mod LevelPlaces
pub mod Lines
pub mod Places
pub mod Walks
