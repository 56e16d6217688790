pub mod Portions
pub mod Plans
pub mod Outcomes
pub mod Sketches
pub mod Stage
pub mod Steps
pub mod Laws
