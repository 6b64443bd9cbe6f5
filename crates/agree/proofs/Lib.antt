pub mod Agree
pub mod Rows
