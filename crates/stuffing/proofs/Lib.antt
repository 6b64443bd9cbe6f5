pub mod Checked
pub mod Refusals
pub mod Written
