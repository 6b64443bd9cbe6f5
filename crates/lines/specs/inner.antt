pub mod Lines
pub mod Strides
pub mod Walk
