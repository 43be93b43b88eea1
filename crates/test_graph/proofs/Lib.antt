pub mod Built
pub mod Legal
pub mod Small
pub mod BasicLegal
