pub mod Laying
pub mod Numeral
pub mod Signs
pub mod ByKind
pub mod Putting
pub mod Hints
pub mod NoNan
