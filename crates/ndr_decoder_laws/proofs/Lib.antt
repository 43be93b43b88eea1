pub mod pipes
pub mod reader
pub mod runs
pub mod steps
pub mod stream
pub mod verdict
pub mod worklist
