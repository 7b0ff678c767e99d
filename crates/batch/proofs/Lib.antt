pub mod First
pub mod Wanted
pub mod Going
pub mod Parting
mod Examples
