pub mod Places
pub mod Skips
pub mod Tokens
pub mod Copies
pub mod Between
pub mod Passing
pub mod Reaching
