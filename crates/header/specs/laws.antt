pub mod Scan
pub mod Parameters
pub mod Exact
pub mod Build
pub mod Theorems
pub mod Search
