pub mod Awaiters
pub mod Codes
pub mod Laws
pub mod Listing
pub mod Maps
pub mod States
pub mod Steps
