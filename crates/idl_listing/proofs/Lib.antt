pub mod WordLists
pub mod ListedRoots
pub mod ListedWhole
pub mod WordByWord
pub mod ListedLines
