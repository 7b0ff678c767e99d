pub mod Inside
pub mod Typing
pub mod Lining
pub mod Adding
pub mod Answered
