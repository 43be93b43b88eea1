mod NextToken
pub mod Endings
pub mod Spelled
pub mod Kept
mod LegalNames
pub mod Lines
mod NamedBefore
mod CarriedNodes
mod CanonReadable
pub mod PrintedReads
mod SameTexts
