pub mod Fetching
pub mod Reporting
