pub mod Judged
pub mod Storing
pub mod Entry
