pub mod Captures
pub mod Private
pub mod Reaching
pub mod Words
pub mod Writing
