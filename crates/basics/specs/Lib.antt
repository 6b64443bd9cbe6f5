pub mod Lists
pub mod inner
pub mod cases
