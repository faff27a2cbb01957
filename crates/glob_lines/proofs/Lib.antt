pub mod CallerLemmas
pub mod LineLemmas
