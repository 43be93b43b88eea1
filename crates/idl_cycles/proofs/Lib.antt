pub mod GraphTests
pub mod GraphContains
pub mod GraphPeeling
pub mod GraphRounds
pub mod GraphRows
pub mod GraphSearching
