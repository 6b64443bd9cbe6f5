pub mod Counted
pub mod Live
pub mod Searching
pub mod Offsets
pub mod Quiet
pub mod Turning
