pub mod Handed
pub mod Spooled
pub mod ValueHanded
pub mod ExtractHanded
pub mod Pieced
