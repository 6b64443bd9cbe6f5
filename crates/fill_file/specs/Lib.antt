pub mod program
pub mod inner
pub mod cases
