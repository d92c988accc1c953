pub mod Legible
pub mod Lower
pub mod Theorems
