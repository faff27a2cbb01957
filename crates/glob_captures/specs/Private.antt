-- Definitions that only private contracts cite.
pub mod Ends
pub mod Fronts
pub mod Rests
pub mod Written
