pub mod Pieces
pub mod Short
pub mod Statuses
pub mod Journals
