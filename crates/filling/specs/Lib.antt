pub mod Mesh
pub mod Check
pub mod Refusal
pub mod Fill
pub mod Located
pub mod Demand
