pub mod Memory
pub mod Moves
pub mod Asked
pub mod laws
