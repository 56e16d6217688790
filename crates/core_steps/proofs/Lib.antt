pub mod ChunksFormed
pub mod Places
pub mod Registering
mod Endings
pub mod Course
pub mod Exact
pub mod Handed
pub mod Idle
pub mod Newly
pub mod EndOfFinish
pub mod Holding
pub mod Adding
pub mod ReadyForTasks
mod Delivering
pub mod Awaited
pub mod Resolved
