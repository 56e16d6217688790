pub mod Awaited
pub mod Changes
pub mod Deliveries
pub mod Listings
pub mod Maps
pub mod Options
pub mod Runnables
