pub mod Rows
pub mod Terms
pub mod Squares
pub mod Triangles
