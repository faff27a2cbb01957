pub mod FileLemmas
pub mod HeldLemmas
