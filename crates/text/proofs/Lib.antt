pub mod AText
pub mod Decimal
pub mod Fields
