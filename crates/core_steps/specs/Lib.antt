pub mod Conditions
pub mod Begin
pub mod Ending
pub mod Delivered
pub mod NewlyReady
pub mod Registrable
pub mod NewTasks
