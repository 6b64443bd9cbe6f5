pub mod AMend
pub mod Step
pub mod Sizes
pub mod Bytes
pub mod Tested
pub mod Theorems
