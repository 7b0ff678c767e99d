pub mod Injective
pub mod Judged
