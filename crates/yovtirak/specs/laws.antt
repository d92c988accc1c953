pub mod Exports
pub mod Reaches
pub mod Retired
pub mod Told
