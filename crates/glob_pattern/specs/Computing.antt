pub mod Deciding
pub mod Reading
pub mod Tokens
