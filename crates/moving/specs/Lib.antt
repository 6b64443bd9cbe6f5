pub mod Label
pub mod Violation
pub mod State
pub mod Nearest
pub mod Reading
pub mod Order
pub mod Moving
pub mod Block
