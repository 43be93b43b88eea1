pub mod Octets
pub mod OctetsFall
