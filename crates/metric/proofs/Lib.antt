pub mod AUnit
pub mod Cases
pub mod Unit
pub mod Product
pub mod Near
pub mod Theorems
