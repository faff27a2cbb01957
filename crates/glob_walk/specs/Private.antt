-- Definitions that only private contracts cite.
pub mod Depths
pub mod Forms
pub mod Frames
pub mod Merging
pub mod Queries
pub mod Stacks
pub mod Tasks
pub mod Turns
pub mod Walkers
