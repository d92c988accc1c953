pub mod Handed
pub mod Taking
pub mod Held
pub mod State
pub mod History
pub mod Promise
pub mod Ours
pub mod laws
