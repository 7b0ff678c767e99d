pub mod Chained
pub mod Evented
pub mod Extents
pub mod Fronts
pub mod Shut
pub mod Tabled
pub mod Walked
