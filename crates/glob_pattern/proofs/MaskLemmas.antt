-- Masks: which tokens take the characters of a class.
pub mod Classes
pub mod Putting
pub mod Words
