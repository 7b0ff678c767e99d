pub mod Rewritten
pub mod Moved
pub mod Renoted
