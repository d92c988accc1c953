pub mod Outcome
pub mod State
