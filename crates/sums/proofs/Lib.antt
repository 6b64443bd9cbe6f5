pub mod Stood
pub mod Volume
pub mod Added
pub mod Filled
pub mod Total
