pub mod Adds
pub mod Rose
