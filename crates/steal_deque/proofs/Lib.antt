mod History
mod Groups
mod Whole
pub mod Stays
