pub mod Owned
pub mod Wanted
pub mod Going
