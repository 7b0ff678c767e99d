pub mod EscapeSteps
pub mod PieceSteps
pub mod Loops
