pub mod Runs
pub mod Writes
pub mod Marks
