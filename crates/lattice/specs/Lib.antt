pub mod Axis
pub mod Counts
pub mod Point
pub mod Direction
pub mod Edge
pub mod Rim
pub mod inner
