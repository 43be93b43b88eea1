pub mod LegalPipes
pub mod LegalReadable
pub mod LegalUsable
