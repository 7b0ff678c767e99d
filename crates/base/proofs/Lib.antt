pub mod Cases
pub mod Below
pub mod Lists
pub mod Stores
