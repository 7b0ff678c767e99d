pub mod Taking
pub mod Braces
pub mod Forms
pub mod Rows
pub mod Sizes
