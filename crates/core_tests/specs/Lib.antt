pub mod Holdings
pub mod Tried
