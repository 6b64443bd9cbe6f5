pub mod APlace
pub mod Determinant
pub mod FromEnd
pub mod InBlock
