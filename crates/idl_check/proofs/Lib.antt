pub mod AcfLast
pub mod AcfAnswers
pub mod AcfOperations
pub mod AcfNotes
pub mod AcfWhole
