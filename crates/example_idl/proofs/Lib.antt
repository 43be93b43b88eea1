pub mod Judged
pub mod Listed
pub mod AcfJudged
pub mod LegalTexts
mod WindowsJudged
