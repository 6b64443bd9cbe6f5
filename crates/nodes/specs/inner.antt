pub mod Rounds
pub mod Answer
