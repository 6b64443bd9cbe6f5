pub mod Moving
pub mod Cubes
pub mod Passes
pub mod Mesh
