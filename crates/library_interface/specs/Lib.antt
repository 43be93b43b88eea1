pub mod CompiledOf
pub mod Named
pub mod Held
