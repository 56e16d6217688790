pub mod Adding
pub mod Contents
pub mod Counted
pub mod Graphs
pub mod Moving
pub mod Reading
pub mod Rows
pub mod Sweeping
