pub mod Measures
pub mod Reads
