pub mod Label
pub mod Context
