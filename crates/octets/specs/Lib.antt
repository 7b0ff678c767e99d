pub mod Classes
pub mod Values
