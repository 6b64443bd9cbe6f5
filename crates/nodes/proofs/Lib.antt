pub mod Surveying
pub mod Settling
pub mod Filled
pub mod Assigning
pub mod Answering
pub mod Skipping
