pub mod Cuts
pub mod Corners
pub mod Picks
pub mod Stencils
