pub mod Fields
pub mod Kept
pub mod Headers
