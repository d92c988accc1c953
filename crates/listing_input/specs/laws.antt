pub mod Run
pub mod Chunks
pub mod Theorems
