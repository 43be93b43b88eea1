pub mod Order
pub mod Equal
pub mod Needed
pub mod Noted
pub mod Ranks
pub mod OtherNotes
