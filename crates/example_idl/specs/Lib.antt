pub mod SmallTexts
pub mod Interfaces
pub mod Listings
pub mod AcfTexts
