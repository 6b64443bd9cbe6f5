pub mod Standing
pub mod FromEnd
pub mod Decoded
pub mod Answers
