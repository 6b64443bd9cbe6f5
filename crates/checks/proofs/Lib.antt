pub mod Search
pub mod Walk
pub mod Outer
pub mod Inner
pub mod Faults
pub mod Edges
pub mod Glance
