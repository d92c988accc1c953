pub mod Requirement
pub mod Finding
pub mod laws
