pub mod Pointers
pub mod Spooling
pub mod Values
pub mod Piecing
