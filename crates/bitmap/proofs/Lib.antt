pub mod Counts
pub mod Loops
pub mod Tables
pub mod Words
