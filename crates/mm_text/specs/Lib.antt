pub mod Cells
pub mod Written
pub mod Lines
pub mod Faults
pub mod Block
pub mod Places
pub mod Steps
pub mod Reading
