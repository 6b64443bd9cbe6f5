pub mod Points
pub mod Lines
pub mod Passing
pub mod Sites
pub mod FarEnds
