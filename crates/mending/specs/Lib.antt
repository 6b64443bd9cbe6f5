pub mod Mend
pub mod inner
