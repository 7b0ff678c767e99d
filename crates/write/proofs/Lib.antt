pub mod Outputs
pub mod Forms
pub mod Entry
