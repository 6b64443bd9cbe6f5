pub mod Warp
pub mod Bridge
pub mod Rows
pub mod MeshIds
pub mod Demand3
