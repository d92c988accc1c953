pub mod Letters
pub mod Table
pub mod laws
