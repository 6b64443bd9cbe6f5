pub mod ATextExamples
pub mod Counted
pub mod Outcome
pub mod Buffer
pub mod Given
pub mod Texts
