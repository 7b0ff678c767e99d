pub mod Cuts
pub mod Filling
pub mod Judging
pub mod Spellings
pub mod Choosing
