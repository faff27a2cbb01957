pub mod Computing
pub mod Escaping
pub mod Grammar
pub mod Laws
pub mod Matching
pub mod Private
pub mod Words
