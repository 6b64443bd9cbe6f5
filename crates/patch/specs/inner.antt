pub mod Sums
pub mod Mends
pub mod Answer
