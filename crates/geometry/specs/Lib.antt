pub mod Place
pub mod Volume
