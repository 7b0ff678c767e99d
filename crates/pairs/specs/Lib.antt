pub mod Two
pub mod Deeds
