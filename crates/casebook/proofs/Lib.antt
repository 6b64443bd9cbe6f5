pub mod Opened
pub mod Cases
pub mod Millimetres
pub mod Agree
