pub mod Input
pub mod Delivery
