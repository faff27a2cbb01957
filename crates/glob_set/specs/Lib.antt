pub mod BraceEscaping
pub mod BraceSets
pub mod Braces
pub mod Private
pub mod Sets
pub mod Words
