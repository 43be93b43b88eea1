pub mod EntriesTell
pub mod LegalSubjects
pub mod StreamFinds
pub mod TestedAt
pub mod TestsFind
