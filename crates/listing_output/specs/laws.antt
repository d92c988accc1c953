pub mod Put
pub mod Example
