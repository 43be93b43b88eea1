pub mod NamesExact
pub mod AttributesExact
pub mod BodyExact
pub mod AcfExact
pub mod AcfLaws
pub mod Within
pub mod AcfExamples
pub mod Harmless
mod FromIdl
mod Formed
mod Answered
