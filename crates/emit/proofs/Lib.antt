pub mod Room
pub mod LabelLaws
pub mod CubeLaws
pub mod BareLaws
pub mod Numbers
pub mod PassLaws
pub mod Table
pub mod Oriented
