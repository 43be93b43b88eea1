pub mod AcfRules
