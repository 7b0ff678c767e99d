pub mod Octets
pub mod Typed
pub mod Coding
pub mod Quarters
pub mod Lines
pub mod Cases
pub mod Asked
