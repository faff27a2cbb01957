-- Definitions that only private contracts cite.
pub mod Engine
pub mod Entering
pub mod Faults
pub mod Finding
pub mod Active
pub mod Asked
pub mod Listings
pub mod NodeGrowth
pub mod NodeNumbers
pub mod Nodes
pub mod Order
pub mod Reading
pub mod Refusing
pub mod Steps
pub mod Ways
pub mod Weights
