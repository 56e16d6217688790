pub mod States
pub mod Steps
pub mod Reached
pub mod Rules
pub mod Codes
pub mod WithoutContents
pub mod Laws
pub mod Trees
