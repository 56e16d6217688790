pub mod History
pub mod Ends
pub mod Groups
