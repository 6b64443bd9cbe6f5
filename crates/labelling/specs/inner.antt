pub mod Labels
pub mod Scans
