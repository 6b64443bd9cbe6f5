pub mod Conforming
pub mod Measured
