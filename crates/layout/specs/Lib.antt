pub mod Layout
pub mod laws
