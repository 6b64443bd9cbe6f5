pub mod Eights
pub mod Folds
