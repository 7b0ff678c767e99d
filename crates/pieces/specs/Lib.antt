pub mod Capped
pub mod Tracks
pub mod Feeding
pub mod Ending
pub mod Handed
pub mod Coded
