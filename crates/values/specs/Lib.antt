pub mod Kinds
pub mod Laid
