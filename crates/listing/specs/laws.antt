pub mod Listed
pub mod Theorems
