pub mod HeldAfter
pub mod Trying
