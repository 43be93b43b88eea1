pub mod Continuing
pub mod FlatNodes
pub mod ChildPlaces
pub mod Worklist
pub mod FromPoint
pub mod HomePointers
pub mod Fetched
