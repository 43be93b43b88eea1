pub mod Examples
pub mod ExamplesPlain
pub mod ExamplesPointers
pub mod ExamplesArrays
pub mod ExamplesUnions
pub mod Graphs
pub mod Simple
