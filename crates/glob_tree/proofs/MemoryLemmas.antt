-- The tree in memory: its nodes and keys, what it answers, and what it refuses.
pub mod Answering
pub mod EntriesIn
pub mod Following
pub mod Keys
pub mod Memory
pub mod Nodes
pub mod Numbers
pub mod Refusing
