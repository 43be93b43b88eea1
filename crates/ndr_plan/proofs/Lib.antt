pub mod Addressed
pub mod Pushed
pub mod Walked
pub mod OwnParams
pub mod Numbering
pub mod SidesAdded
