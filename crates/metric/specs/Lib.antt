pub mod Millimetres
pub mod inner
pub mod cases
