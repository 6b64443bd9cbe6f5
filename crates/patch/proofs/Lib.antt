pub mod Mends
pub mod Site
pub mod Line
pub mod Whole
