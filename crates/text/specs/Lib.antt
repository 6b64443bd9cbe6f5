pub mod inner
pub mod Text
