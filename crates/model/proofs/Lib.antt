pub mod ReadCases
pub mod Digits
pub mod Classes
pub mod Stripped
pub mod Marks
pub mod Quoted
pub mod Apart
pub mod Simples
pub mod Rules
pub mod Streams
pub mod Sizes
pub mod Nesting
pub mod Lexemes
pub mod Strict
pub mod Canonical
pub mod Held
pub mod LexemeLoop
pub mod Braces
pub mod Unique
pub mod Unnested
pub mod Exact
pub mod Bytes
pub mod Written
pub mod WrittenBasic
pub mod OutputSizes
pub mod Wider
pub mod Spellings
pub mod Listed
pub mod Laws
mod Starred
mod Corrected
mod Examples
pub mod Judging
pub mod Telling
pub mod Numbered
