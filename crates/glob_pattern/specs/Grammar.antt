pub mod Brackets
pub mod Characters
pub mod Faults
pub mod Tokens
pub mod Units
