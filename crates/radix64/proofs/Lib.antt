pub mod GroupOctets
pub mod Marks
pub mod Ends
pub mod LetterSteps
pub mod GroupSteps
pub mod Runs
