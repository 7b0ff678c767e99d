pub mod Records
pub mod Telling
pub mod Filling
pub mod Held
pub mod Counts
pub mod Alike
pub mod Claiming
pub mod Granting
