pub mod Spots
pub mod Sound
pub mod Bytes
pub mod Parts
pub mod Laws
