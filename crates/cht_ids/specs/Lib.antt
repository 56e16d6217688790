pub mod Laws
pub mod Numeral
pub mod Refs
pub mod Lines
