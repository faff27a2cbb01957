pub mod FoundPaths
pub mod Laws
pub mod Lines
pub mod Outcomes
pub mod Private
pub mod Words
