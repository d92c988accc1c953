pub mod CheckWord
pub mod laws
