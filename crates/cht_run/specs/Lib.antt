pub mod Verdict
pub mod Notes
pub mod Answers
pub mod Number
pub mod Reading
pub mod Judged
pub mod Journals
