pub mod Answers
pub mod ByPlan
