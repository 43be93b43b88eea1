pub mod Alike
pub mod Carried
pub mod Compared
pub mod Complete
pub mod Numbers
pub mod Ordered
pub mod Renumbered
pub mod Walks
pub mod NamingOrder
pub mod Images
mod CarriedNumbers
pub mod OneCanonical
pub mod CanonicalForms
