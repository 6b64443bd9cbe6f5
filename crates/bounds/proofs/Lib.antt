pub mod Amount
pub mod Triple
pub mod Interval
pub mod Boxed
pub mod Extent
