pub mod Canonical
pub mod EmptyPipes
pub mod HeadReads
