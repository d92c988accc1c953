pub mod StateTests
pub mod Keys
pub mod Shares
pub mod Fresh
pub mod Ready
pub mod Held
pub mod Finished
pub mod FromFn
