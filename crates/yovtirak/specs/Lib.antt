pub mod Exports
pub mod Heads
pub mod laws
