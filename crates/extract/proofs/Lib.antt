pub mod Laid
pub mod Cutting
pub mod Words
pub mod Passing
pub mod Giving
