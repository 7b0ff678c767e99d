pub mod Node
pub mod Place
pub mod Moves
pub mod Levels
pub mod Element
