pub mod Found
pub mod Strings
pub mod Hints
pub mod Trees
pub mod Passed
pub mod Converting
pub mod Stepping
pub mod Holding
