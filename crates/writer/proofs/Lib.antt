pub mod Pieces
pub mod Spelled
pub mod Places
pub mod Lefts
pub mod Writing
pub mod Groups
pub mod Putting
