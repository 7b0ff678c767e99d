pub mod Conditions
pub mod Orders
pub mod Values
pub mod Lines
pub mod Corrections
pub mod Climbing
