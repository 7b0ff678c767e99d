pub mod Spliced
pub mod Noting
pub mod Moving
pub mod Renoting
pub mod Joining
pub mod Finishing
