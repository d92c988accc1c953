pub mod Parts
pub mod Stage
pub mod Take
pub mod Sound
pub mod Asked
pub mod State
pub mod Source
pub mod laws
