pub mod Quick
pub mod Turns
