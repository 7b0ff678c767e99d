pub mod Octets
pub mod Lengthy
