pub mod Checks
pub mod Fills
