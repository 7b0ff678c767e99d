pub mod Numbers
pub mod Alike
pub mod Tokens
pub mod Agreed
pub mod Strings
pub mod Noted
pub mod Pacing
