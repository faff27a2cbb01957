-- Definitions that only private contracts cite.
pub mod Gathering
pub mod Listing
pub mod Looking
pub mod Nodes
pub mod Numbers
pub mod Places
