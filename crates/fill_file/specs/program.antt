pub mod Summary
pub mod Printed
