pub mod Answers
pub mod Entered
pub mod Events
pub mod Granted
pub mod Started
