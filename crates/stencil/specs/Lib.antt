pub mod Tetrahedron
pub mod Row
pub mod Stencil
pub mod Id
pub mod inner
