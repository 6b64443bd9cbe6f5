pub mod Decided
pub mod Difference
pub mod Samples
pub mod Turns
