pub mod Fills
pub mod Questions
pub mod Files
