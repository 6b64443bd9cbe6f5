pub mod CutTable
pub mod CornerLaws
pub mod StencilLaws
pub mod Patterns
pub mod Ids
