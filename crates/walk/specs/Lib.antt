pub mod Events
pub mod Extent
