pub mod Block
pub mod Symmetric
