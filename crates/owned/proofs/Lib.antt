pub mod Wanted
pub mod Owned
pub mod Claiming
pub mod Going
pub mod Turning
pub mod Meeting
pub mod Owning
