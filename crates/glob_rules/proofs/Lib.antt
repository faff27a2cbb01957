pub mod DecidingLemmas
pub mod LineLemmas
