pub mod Fits
pub mod Composed
pub mod Asking
pub mod Reading
pub mod Agreement
