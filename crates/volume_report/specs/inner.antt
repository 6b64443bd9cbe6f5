pub mod Answer
pub mod Small
pub mod Turns
