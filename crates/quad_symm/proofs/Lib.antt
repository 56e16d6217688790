pub mod Tails
pub mod Written
pub mod Blocks
