pub mod CanonNumbers
pub mod SameForms
pub mod WritableTrees
pub mod WrittenEntries
