pub mod ListNodes
