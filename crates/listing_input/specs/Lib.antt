pub mod Hex
pub mod Line
pub mod Split
pub mod Gather
pub mod laws
