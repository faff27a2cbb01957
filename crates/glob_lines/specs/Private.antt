-- Definitions that only private contracts cite.
pub mod Fronts
pub mod Gathering
