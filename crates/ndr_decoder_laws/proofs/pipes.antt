pub mod Staying
pub mod PipeEntries
pub mod Counts
pub mod Elements
pub mod ElementsEnd
pub mod PipesBegin
