pub mod Wire
pub mod Digest
