pub mod Doubling
pub mod Counting
