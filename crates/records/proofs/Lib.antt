pub mod Tables
pub mod Tabling
pub mod Owning
pub mod Showing
pub mod Looking
pub mod Judging
