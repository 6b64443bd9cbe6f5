pub mod Answer
pub mod Needs
pub mod Write
