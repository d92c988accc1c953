pub mod Over
pub mod Marks
pub mod Shares
