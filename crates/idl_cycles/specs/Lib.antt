pub mod Graph
pub mod GraphRows
pub mod GraphRounds
pub mod GraphCycles
