pub mod Lister
pub mod Feed
pub mod Arrival
