pub mod Alone
pub mod Begun
pub mod Serving
