pub mod BigEndian
pub mod Same
pub mod Order
pub mod Reading
pub mod Fronts
