pub mod Stores
pub mod Find
pub mod Keys
pub mod Alone
pub mod State
pub mod Take
pub mod Show
pub mod laws
