pub mod LastPart
