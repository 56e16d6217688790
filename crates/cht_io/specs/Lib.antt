pub mod Bytes
pub mod Calls
pub mod Edge
pub mod Faults
pub mod Sinks
pub mod Sources
