pub mod Sheets
pub mod Elements
