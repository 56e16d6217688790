pub mod Codes
pub mod Deleting
pub mod Inside
pub mod Masks
pub mod Others
pub mod Room
