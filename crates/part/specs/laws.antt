pub mod Keeps
pub mod Inside
pub mod Held
pub mod Bytes
pub mod Step
pub mod Sound
