pub mod SlabMap
pub mod Writes
