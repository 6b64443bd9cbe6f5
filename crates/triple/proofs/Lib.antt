pub mod Box
pub mod Terms
