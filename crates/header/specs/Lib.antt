pub mod Parameters
pub mod Names
pub mod laws
