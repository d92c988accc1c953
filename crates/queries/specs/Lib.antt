pub mod Said
pub mod Questions
pub mod Missing
pub mod laws
