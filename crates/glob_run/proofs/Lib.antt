pub mod CopyLemmas
pub mod RequestLemmas
