-- Definitions that only private contracts cite.
pub mod Asking
pub mod BraceCounts
pub mod BraceSteps
pub mod Buckets
pub mod Components
pub mod Keyed
pub mod Keys
pub mod Pairs
