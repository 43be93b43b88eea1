pub mod LegalFields
