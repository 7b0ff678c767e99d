pub mod Agreement
pub mod Values
