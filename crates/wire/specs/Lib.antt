pub mod Wire
pub mod Reading
pub mod Ignored
pub mod laws
