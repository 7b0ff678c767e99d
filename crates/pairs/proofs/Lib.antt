pub mod Two
pub mod Apart
pub mod Inserted
pub mod Removed
mod Examples
