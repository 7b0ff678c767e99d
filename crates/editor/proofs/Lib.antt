pub mod Placing
pub mod Entry
pub mod Retelling
