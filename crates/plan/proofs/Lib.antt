pub mod Levelling
pub mod Hopping
pub mod Finding
pub mod Spotting
pub mod Resizing
pub mod Planning
pub mod Removing
