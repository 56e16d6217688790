pub mod Callers
pub mod Inside
pub mod Kept
pub mod Order
pub mod Queue
pub mod Weave
