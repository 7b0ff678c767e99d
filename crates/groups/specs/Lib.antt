pub mod Octets
pub mod Places
